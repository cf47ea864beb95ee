pub mod Listings
pub mod Parts
pub mod Fills
pub mod Facts
pub mod Small
pub mod Sound
