pub mod Form
pub mod Readers
pub mod Steps
pub mod Told
