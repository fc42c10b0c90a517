pub mod Net
pub mod Pair
pub mod Search
