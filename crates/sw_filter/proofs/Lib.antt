pub mod Good
pub mod Longer
pub mod Narrow
pub mod Marked
pub mod Frame
