pub mod Building
pub mod Entries
pub mod Reading
pub mod Steps
pub mod Text
