pub mod Searches
pub mod Spaces
pub mod Phases
pub mod Laws
