-- What the contracts of `writer` cite.
pub mod Reply
pub mod Steps
