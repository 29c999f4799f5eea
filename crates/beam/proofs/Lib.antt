pub mod Whole
pub mod Answers
pub mod Parts
pub mod Grouping
pub mod Alike
