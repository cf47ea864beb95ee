pub mod Good
pub mod Relate
pub mod Demand
pub mod Held
pub mod LongRun
pub mod Example
