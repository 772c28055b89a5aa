pub mod Widths
pub mod Sorting
