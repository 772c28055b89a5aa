pub mod Folding
pub mod Naming
pub mod Plans
