pub mod Spacing
pub mod Tidy
mod SpeltTerms
pub mod Measured
mod SpeltForms
mod SameMeaning
pub mod Tidied
pub mod ShownAs
pub mod Formulas
mod Growing
pub mod WrittenLists
mod WrittenNames
pub mod WrittenDeclarations
mod WrittenTransitions
mod Protocols
