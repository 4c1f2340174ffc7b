-- Functions of texts: bytes and the characters that they spell.
pub mod Blanks
pub mod Characters
pub mod Decisions
pub mod Fronts
pub mod Letters
pub mod Lowered
pub mod Offsets
pub mod OneTrim
pub mod Searches
pub mod Trims
