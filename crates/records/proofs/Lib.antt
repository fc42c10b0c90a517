pub mod Fields
pub mod Climbing
pub mod Order
