pub mod Asking
pub mod Starts
pub mod Standing
pub mod Planning
pub mod Making
