pub mod Sources
pub mod Soundness
