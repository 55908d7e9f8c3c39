pub mod Reads
pub mod Rows
pub mod Copies
pub mod Moves
pub mod Orders
pub mod Views
