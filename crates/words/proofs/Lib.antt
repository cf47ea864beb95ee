pub mod Tests
pub mod Listed
pub mod Says
pub mod Written
pub mod Counted
