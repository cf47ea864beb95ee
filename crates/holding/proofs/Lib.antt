pub mod Chains
pub mod Frames
pub mod Holes
pub mod Reading
