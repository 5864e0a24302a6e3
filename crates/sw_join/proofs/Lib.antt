pub mod Decided
pub mod Joined
