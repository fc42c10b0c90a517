pub mod TableTest
pub mod AnyOf
pub mod Card
