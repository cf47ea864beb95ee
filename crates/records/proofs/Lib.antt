pub mod Chains
pub mod Spots
pub mod Marks
pub mod Splices
pub mod Small
pub mod Coming
pub mod Going
pub mod Lifting
