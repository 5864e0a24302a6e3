pub mod Bodies
pub mod Counts
pub mod Listing
pub mod Limits
pub mod Prefix
pub mod Lits
pub mod Edges
