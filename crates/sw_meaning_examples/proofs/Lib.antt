pub mod Counted
pub mod Given
pub mod Told
pub mod Written
