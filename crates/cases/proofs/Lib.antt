pub mod Worked
pub mod Measured
pub mod Slopes
