pub mod LowerCase
pub mod Pieces
pub mod Spellings
