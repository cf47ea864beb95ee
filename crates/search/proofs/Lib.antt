pub mod PathMet
pub mod Down
pub mod Right
pub mod Tops
