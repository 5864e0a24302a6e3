pub mod Sharing
mod Visiting
