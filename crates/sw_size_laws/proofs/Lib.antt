mod Asked
mod Budget
mod Counts
mod Erased
mod Examples
mod Grown
mod Once
mod PieceShapes
mod SkolemShapes
pub mod Part
