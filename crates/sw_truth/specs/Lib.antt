pub mod Models
pub mod Sorting
