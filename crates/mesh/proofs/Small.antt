-- Small meshes, decided by computation: the tests (Decide), that they say what the definitions say (Decided), the table of
-- small meshes (Shown), and examples that hold a definition from the other side (Examples).
pub mod Decide
pub mod Decided
pub mod Shown
pub mod Examples
