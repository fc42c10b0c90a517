-- What the contracts of `groups` cite.
pub mod Reply
