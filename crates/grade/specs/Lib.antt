pub mod Profiles
pub mod Ranks
pub mod Tops
