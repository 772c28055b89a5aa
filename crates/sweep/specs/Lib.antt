pub mod Beginnings
pub mod Changes
pub mod Outcomes
pub mod Passes
pub mod Steps
pub mod Visits
