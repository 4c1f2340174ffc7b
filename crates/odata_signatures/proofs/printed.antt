-- What the normal form of a tree keeps.
pub mod Enumerations
pub mod Literals
pub mod Nodes
pub mod Paths
pub mod Places
pub mod Pieces
pub mod Readings
pub mod Types
pub mod Values
