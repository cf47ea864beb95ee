pub mod Touched
pub mod Ways
pub mod Kept
