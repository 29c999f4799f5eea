pub mod Median
pub mod Filter
pub mod Row
pub mod Whiteboard
pub mod Counting
pub mod Asked
