pub mod Fills
pub mod Pages
pub mod Records
pub mod Sets
pub mod Becoming
pub mod Spreading
pub mod Mending
