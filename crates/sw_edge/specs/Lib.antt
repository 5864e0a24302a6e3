pub mod Edge
pub mod Turns
