mod Examples
mod Expanding
mod Freshening
mod Gathering
mod NnfSteps
mod NormalForms
mod Parts
mod PieceParts
mod Piecing
mod Pulling
mod Restricting
mod Stratified
mod Universal
mod WellFormed
mod Wholes
mod Witnesses
pub mod PartOccurs
pub mod FormSteps
pub mod PieceSteps
pub mod PlainSteps
pub mod Absorption
pub mod PlainTruth
pub mod PlainNormal
