pub mod Reading
pub mod Settles
pub mod Turns
pub mod Roots
pub mod Entered
