pub mod Samples
pub mod Gaps
pub mod Rows
pub mod Faults
