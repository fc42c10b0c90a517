-- What the contracts of `reader` cite.
pub mod Reply
pub mod Steps
