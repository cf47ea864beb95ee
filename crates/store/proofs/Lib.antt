pub mod Turns
pub mod Kept
pub mod Frames
pub mod Places
pub mod Within
