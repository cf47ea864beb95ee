pub mod Lines
pub mod Sections
