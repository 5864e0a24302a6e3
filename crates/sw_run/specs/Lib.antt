pub mod Ending
pub mod Giving
pub mod Laws
pub mod Refusals
pub mod Words
