pub mod Adding
pub mod Building
pub mod Indexed
pub mod Table
pub mod Verdict
