-- The canonical spelling of an enumeration literal, by its pieces.
pub mod Pieces
