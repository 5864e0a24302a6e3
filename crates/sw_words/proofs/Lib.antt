pub mod Pieces
pub mod Steps
pub mod Bridge
pub mod Digits
pub mod Equals
pub mod Drills
pub mod Matched
