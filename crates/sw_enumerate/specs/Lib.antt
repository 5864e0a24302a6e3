pub mod Walk
pub mod Spaces
pub mod Refusals
