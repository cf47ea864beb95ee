pub mod Listed
pub mod Stays
