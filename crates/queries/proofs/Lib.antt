pub mod Answers
pub mod Once
pub mod StepCount
