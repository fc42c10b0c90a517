-- What the contracts of `stations` cite.
pub mod Sets
pub mod Words
pub mod Answers
