pub mod Couples
pub mod Levels
pub mod Turns
pub mod Seen
