-- What the contracts of `holding` cite.
pub mod Reply
pub mod Steps
