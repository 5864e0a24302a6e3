pub mod Spelling
pub mod Scans
