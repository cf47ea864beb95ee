pub mod Tasks
pub mod Tallies
