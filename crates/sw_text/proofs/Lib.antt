pub mod Breaking
pub mod Folding
pub mod SortedTerms
pub mod WellSorted
pub mod FewVariables
pub mod OneFormula
pub mod Numbered
pub mod Placing
