pub mod Names
pub mod Resolving
pub mod Texts
pub mod Scoped
pub mod Laws
pub mod Tables
