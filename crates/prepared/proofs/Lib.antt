pub mod Before
pub mod Fills
pub mod Fitting
pub mod Known
pub mod Listed
pub mod Reading
