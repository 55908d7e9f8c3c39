pub mod Views
pub mod Performing
pub mod Calls
