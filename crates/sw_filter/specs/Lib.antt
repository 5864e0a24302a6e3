pub mod Filters
pub mod Views
pub mod Good
pub mod Laws
