pub mod Finished
pub mod Joins
pub mod Shares
