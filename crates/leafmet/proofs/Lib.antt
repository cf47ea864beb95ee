pub mod Loops
pub mod LeafMet
