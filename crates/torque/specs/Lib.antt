pub mod Rows
pub mod Soundness
