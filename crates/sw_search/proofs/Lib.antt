pub mod OneReport
pub mod Lists
pub mod Searchable
mod Log
pub mod Breadth
pub mod Finish
