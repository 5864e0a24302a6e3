mod Counted
pub mod Distinct
mod Examples
mod GroundTerms
pub mod Lengths
mod Listed
mod Sized
pub mod Stable
pub mod Uniform
