pub mod Binding
pub mod Bounds
pub mod Clashing
pub mod Questions
