pub mod Answers
pub mod Edges
pub mod Laws
pub mod Reaching
