pub mod Decision
pub mod Known
