pub mod Cuts
pub mod Readers
pub mod Known
pub mod Shown
pub mod Answered
