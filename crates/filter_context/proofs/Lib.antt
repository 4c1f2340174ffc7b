pub mod Children
pub mod Extents
pub mod Operands
pub mod Parts
pub mod Spines
pub mod Variables
