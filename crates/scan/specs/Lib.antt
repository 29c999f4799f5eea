pub mod Held
pub mod Ring
pub mod Scan
pub mod Asked
