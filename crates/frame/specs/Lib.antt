pub mod Layout
pub mod Records
pub mod Paths
pub mod Views
pub mod Writes
pub mod Refusals
pub mod Rewrites
pub mod Eaches
