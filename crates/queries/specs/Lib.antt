pub mod Searches
pub mod Joins
