pub mod Shares
pub mod Walk
pub mod Decides
pub mod Shaped
pub mod Whole
