-- Literals that have been read, and the enumerations that they name.
pub mod Enumerations
pub mod Literals
pub mod Quoted
