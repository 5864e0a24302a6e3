pub mod Answers
pub mod Trail
pub mod Standing
pub mod Analysis
pub mod Progress
pub mod Occurring
