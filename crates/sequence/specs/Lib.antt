pub mod Planning
pub mod Running
