pub mod Acting
pub mod Folding
pub mod Lent
pub mod Own
pub mod Recast
