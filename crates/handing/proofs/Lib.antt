pub mod Clearing
pub mod Sinking
pub mod Handing
pub mod Keys
