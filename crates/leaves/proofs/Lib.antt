pub mod Walks
pub mod Whiles
pub mod Rows
pub mod Parts
pub mod Finds
pub mod Faces
pub mod Turns
