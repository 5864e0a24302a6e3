pub mod Runs
pub mod Fronts
pub mod Unique
pub mod Cut
