pub mod OneSpace
pub mod Fitting
