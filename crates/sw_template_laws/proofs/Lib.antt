pub mod Bodies
pub mod Blocks
pub mod Binding
