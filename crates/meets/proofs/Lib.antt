pub mod Loops
pub mod PageMet
