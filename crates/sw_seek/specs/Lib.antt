pub mod Seeking
pub mod Steps
