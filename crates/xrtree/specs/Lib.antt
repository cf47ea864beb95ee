pub mod Tree
pub mod Rules
pub mod Search
pub mod Claims
pub mod Local
pub mod Holes
pub mod Moves
