pub mod ClaimsAnswers
pub mod ClaimsRule
pub mod ClaimsSteps
pub mod Seats
pub mod Sharing
pub mod Workers
