pub mod Ranks
pub mod Ways
