-- What the contracts of the weak pair search cite.
pub mod Losses
