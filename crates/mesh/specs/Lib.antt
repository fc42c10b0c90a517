pub mod Mesh
pub mod Dividing
pub mod Routes
pub mod Standing
pub mod SmallMeshes
pub mod Table
