-- What the contracts of `records` cite.
pub mod Bytes
pub mod Survey
pub mod Lines
pub mod Steps
