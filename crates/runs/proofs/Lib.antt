pub mod Batched
pub mod Meaning
pub mod Demand
pub mod Alone
pub mod Witness
pub mod Exact
