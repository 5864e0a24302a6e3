pub mod Apart
pub mod Counting
pub mod Laws
pub mod Examples
