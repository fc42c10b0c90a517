-- The laws of `page`.
pub mod Level
pub mod Upward
pub mod Reading
pub mod OnlyOne
pub mod Named
pub mod Longer
pub mod Example
