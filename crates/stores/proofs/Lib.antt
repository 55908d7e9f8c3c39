pub mod Reading
pub mod Keeping
pub mod Scans
pub mod Joining
pub mod Moving
pub mod Placing
