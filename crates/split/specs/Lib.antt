pub mod Stored
pub mod Ready
