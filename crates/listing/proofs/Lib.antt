pub mod Sections
pub mod Copied
pub mod Regions
pub mod Whole
pub mod Once
