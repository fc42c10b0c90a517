pub mod Parts
pub mod Arrival
pub mod OneSource
pub mod AllSources
pub mod FirstLoss
pub mod SmallestLoss
pub mod Reply
