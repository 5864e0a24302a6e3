pub mod LogAnswers
pub mod LogRule
pub mod LogSteps
pub mod Seats
