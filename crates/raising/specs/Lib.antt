pub mod Moves
pub mod Sides
