pub mod ByTurns
pub mod Handed
pub mod Turned
