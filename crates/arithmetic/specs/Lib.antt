pub mod Bytes
pub mod Greatest
pub mod Signed
pub mod Lists
pub mod Sums
pub mod Fractions
