pub mod Weights
pub mod Reach
pub mod Rows
pub mod Coordinates
pub mod Outcomes
pub mod Samples
pub mod Examples
