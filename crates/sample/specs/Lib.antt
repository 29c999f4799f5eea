pub mod Cubic
pub mod Asked
