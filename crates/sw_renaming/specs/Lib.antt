pub mod Renamed
pub mod Symbols
