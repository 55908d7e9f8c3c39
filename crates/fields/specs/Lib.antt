pub mod Bounded
pub mod Fits
pub mod Texts
pub mod Views
