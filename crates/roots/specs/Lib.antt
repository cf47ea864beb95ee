pub mod WholeTree
