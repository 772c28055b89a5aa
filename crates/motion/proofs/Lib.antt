pub mod Rates
pub mod Flooring
pub mod Scanning
pub mod SpeedLimits
