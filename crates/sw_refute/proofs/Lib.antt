pub mod Literals
mod Following
mod Propagating
pub mod Accepting
mod Verdicts
mod Statuses
mod Trails
mod Ends
