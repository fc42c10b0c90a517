pub mod Marks
pub mod Way
pub mod Sweeping
pub mod Outcome
pub mod Pair
pub mod Ends
