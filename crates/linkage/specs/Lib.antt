pub mod Net
pub mod Linkage
pub mod Pair
