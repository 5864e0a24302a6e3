pub mod Laws
pub mod Normal
pub mod Pieces
pub mod Skolem
pub mod Forming
pub mod Piecing
pub mod Absorbing
