-- What the contracts of `touch` cite.
pub mod Reach
