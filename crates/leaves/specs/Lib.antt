pub mod Cursors
pub mod Faces
