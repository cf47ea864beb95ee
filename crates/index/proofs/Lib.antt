pub mod Opened
pub mod Empty
pub mod Changed
pub mod Batched
pub mod Once
