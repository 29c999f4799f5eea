pub mod Extremes
pub mod Noise
pub mod Judge
pub mod Measure
pub mod AnnexA
pub mod Asked
