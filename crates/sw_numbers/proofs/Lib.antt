pub mod NumbersOfTerms
mod Placed
pub mod Placing
mod Standing
