pub mod Writes
pub mod Slices
