pub mod Stacks
pub mod Stacked
pub mod Pairs
