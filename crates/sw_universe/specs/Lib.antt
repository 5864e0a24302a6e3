pub mod ByNumber
pub mod Counting
pub mod GroundTerms
pub mod Laws
pub mod Listing
pub mod Sizes
