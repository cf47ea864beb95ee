pub mod Pass
pub mod State
