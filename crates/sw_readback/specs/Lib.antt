pub mod Formulas
pub mod Protocols
