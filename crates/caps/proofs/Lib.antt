pub mod Values
pub mod Square
pub mod Quotients
