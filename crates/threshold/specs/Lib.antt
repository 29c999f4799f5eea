pub mod Histogram
pub mod TwoMeans
pub mod Asked
pub mod Worked
