pub mod Digits
pub mod Runs
pub mod Written
pub mod Lined
pub mod Putting
