pub mod Order
pub mod OnlyOne
pub mod Demands
