pub mod Queries
pub mod Counterexamples
