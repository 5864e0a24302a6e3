pub mod Machine
pub mod Founded
pub mod Laws
pub mod Records
pub mod Gathered
pub mod States
pub mod Draws
