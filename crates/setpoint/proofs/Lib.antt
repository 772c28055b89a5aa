pub mod Framing
pub mod OwnPairs
pub mod Rooting
pub mod Turns
