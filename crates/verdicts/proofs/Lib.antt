pub mod Lowering
pub mod Taking
