pub mod Counted
pub mod Known
