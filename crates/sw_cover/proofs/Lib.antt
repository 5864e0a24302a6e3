pub mod Declared
pub mod Members
pub mod Terms
pub mod Literals
pub mod Rising
pub mod Prefix
pub mod Covering
pub mod TermCounts
pub mod Counts
pub mod Parted
pub mod Once
mod Examples
