pub mod Classes
pub mod Laws
pub mod Quotient
pub mod Tables
pub mod Terms
pub mod Told
pub mod Truths
pub mod Valuations
