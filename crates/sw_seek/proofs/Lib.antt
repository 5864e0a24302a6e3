pub mod Firsts
pub mod Standing
pub mod Settled
pub mod Draws
