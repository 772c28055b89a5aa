pub mod LimitExamples
pub mod CapExamples
pub mod JobExamples
pub mod Examples
