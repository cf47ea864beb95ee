pub mod Ways
pub mod Owners
pub mod Lies
pub mod Changed
