pub mod Order
pub mod Apart
pub mod Slots
pub mod Laws
