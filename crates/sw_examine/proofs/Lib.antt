pub mod Decided
pub mod Kept
