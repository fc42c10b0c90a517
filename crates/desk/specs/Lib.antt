-- What the contracts of `desk` cite.
pub mod Desk
