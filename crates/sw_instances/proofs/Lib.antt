mod Counting
mod Encoding
mod Holding
mod Listing
mod Numbered
mod Universes
