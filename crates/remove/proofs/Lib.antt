pub mod Thinning
pub mod Shrunk
pub mod Removing
