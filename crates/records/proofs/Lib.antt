pub mod Bodies
pub mod Examples
pub mod Outcomes
pub mod Reading
