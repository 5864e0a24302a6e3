pub mod Crossing
pub mod Joins
pub mod Seeks
pub mod Whole
