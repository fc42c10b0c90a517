-- What the contracts of `pairs` cite.
pub mod Piece
