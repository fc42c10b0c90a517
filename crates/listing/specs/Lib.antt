-- What the contracts of `listing` cite.
pub mod List
pub mod Rows
pub mod Steps
pub mod Searches
