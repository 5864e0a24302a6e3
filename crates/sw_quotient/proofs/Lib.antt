pub mod Elements
mod Atoms
mod Classes
mod Clauses
mod Congruence
mod Exists
mod Gathered
mod Instances
mod Making
mod Matrices
mod Meanings
mod Models
mod Saying
mod Tabulated
mod Terms
mod Told
