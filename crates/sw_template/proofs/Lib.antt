pub mod Signed
pub mod Ranging
pub mod Capping
pub mod Choosing
pub mod Numbered
pub mod Termed
pub mod Counting
pub mod Declared
pub mod Edging
mod Made
