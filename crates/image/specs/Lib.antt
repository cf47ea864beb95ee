pub mod Read
pub mod Valid
pub mod Shape
pub mod Fills
pub mod Decode
