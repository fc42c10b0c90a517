-- What the contracts of `standings` cite.
pub mod Reply
pub mod Steps
