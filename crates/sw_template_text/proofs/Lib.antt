pub mod Grammatical
pub mod NamedRuns
pub mod Digits
pub mod OneTemplate
pub mod Settled
