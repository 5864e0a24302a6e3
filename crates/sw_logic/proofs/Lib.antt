mod Counting
mod Matching
pub mod Places
mod Quantifiers
pub mod Ranges
pub mod Steps
