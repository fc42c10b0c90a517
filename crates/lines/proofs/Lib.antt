-- The laws of `lines`.
pub mod Adding
pub mod Decimal
pub mod Serials
pub mod Unbroken
