pub mod Border
pub mod Seats
