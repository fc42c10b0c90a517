pub mod Put
pub mod Filling
pub mod Tests
