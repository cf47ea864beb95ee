pub mod Numbers
pub mod Seats
