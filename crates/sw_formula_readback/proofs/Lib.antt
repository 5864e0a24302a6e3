pub mod Prefixes
pub mod Declared
pub mod Trees
pub mod Bodied
pub mod Bound
pub mod ReadBack
