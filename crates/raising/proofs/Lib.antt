pub mod Entering
pub mod Raising
pub mod Keys
