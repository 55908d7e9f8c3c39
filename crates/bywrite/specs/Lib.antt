pub mod Places
pub mod Distinct
pub mod Lasts
pub mod Laws
