pub mod Answers
pub mod Examinations
