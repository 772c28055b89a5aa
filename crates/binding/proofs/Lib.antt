pub mod Cells
pub mod Firsts
pub mod Laws
pub mod Leasts
pub mod Limits
pub mod Raising
pub mod Scans
pub mod Sides
