pub mod Floats
pub mod Caps
