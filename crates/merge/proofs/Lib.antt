pub mod Listed
pub mod Stays
pub mod Assemble
pub mod Parts
pub mod Pairs
pub mod LeafMerge
pub mod InnerMerge
