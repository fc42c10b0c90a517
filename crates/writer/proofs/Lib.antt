pub mod Listing
pub mod Rows
pub mod Links
pub mod File
pub mod Tests
