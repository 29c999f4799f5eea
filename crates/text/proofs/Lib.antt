pub mod Spelling
pub mod Putting
pub mod Outcomes
