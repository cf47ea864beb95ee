pub mod Fitting
pub mod Marks
