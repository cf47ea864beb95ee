pub mod Crossing
pub mod Starts
pub mod Reaching
pub mod Levels
