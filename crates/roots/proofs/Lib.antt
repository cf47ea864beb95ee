pub mod Roots
pub mod Counted
