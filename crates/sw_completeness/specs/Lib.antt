pub mod Laws
pub mod Worst
