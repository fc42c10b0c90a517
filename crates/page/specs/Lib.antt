-- What the contracts of `page` cite.
pub mod Page
pub mod Reply
pub mod Steps
