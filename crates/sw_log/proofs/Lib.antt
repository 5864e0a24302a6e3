mod LogKeeps
mod Prefixes
mod Totals
