pub mod Text
pub mod Reads
pub mod Breaks
