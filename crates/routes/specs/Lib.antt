-- What the contracts of `routes` cite.
pub mod Reply
pub mod Steps
