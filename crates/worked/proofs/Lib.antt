pub mod Caps
pub mod LimitsShown
pub mod Job
