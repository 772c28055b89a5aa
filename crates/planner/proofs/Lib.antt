pub mod Begun
pub mod Bounds
pub mod Caps
pub mod Fills
pub mod Makes
pub mod Plans
