pub mod Counting
pub mod Child
pub mod Whole
