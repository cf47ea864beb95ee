pub mod Runs
pub mod Items
pub mod Read
pub mod Leaves
pub mod Inners
