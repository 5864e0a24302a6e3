pub mod Reduce
pub mod Reading
pub mod Complete
pub mod Sound
pub mod Viable
pub mod Greatest
pub mod Answering
pub mod OneAnswer
