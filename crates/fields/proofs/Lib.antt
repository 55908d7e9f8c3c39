mod Passes
mod Pads
mod Days
pub mod Same
pub mod Decimals
