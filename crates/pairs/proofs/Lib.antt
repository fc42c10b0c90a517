pub mod Turns
pub mod Links
pub mod Starts
pub mod WeakPairs
