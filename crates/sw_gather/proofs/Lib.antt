pub mod Moving
pub mod Chosen
pub mod Merged
pub mod Shares
