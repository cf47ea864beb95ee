pub mod Opening
pub mod Changes
pub mod Batches
