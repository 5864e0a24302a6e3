pub mod Asked
pub mod Laws
pub mod Part
pub mod Sizes
