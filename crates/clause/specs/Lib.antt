pub mod Asking
pub mod Kinds
pub mod Clauses
