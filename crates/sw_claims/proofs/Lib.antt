mod ClaimsKeep
mod Gathers
mod Totals
