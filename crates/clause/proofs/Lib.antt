pub mod Patterns
pub mod Questions
pub mod ClauseTrips
