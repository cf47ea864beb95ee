pub mod Moves
pub mod Ahead
pub mod Ways
pub mod Turns
