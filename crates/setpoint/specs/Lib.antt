pub mod Faults
pub mod Frames
pub mod Release
pub mod Roots
pub mod Sending
pub mod Writing
