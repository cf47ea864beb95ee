pub mod LeafMet
