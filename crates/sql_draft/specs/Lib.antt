pub mod Growth
pub mod Kinds
pub mod OperandHas
pub mod Paths
pub mod Rows
pub mod Translated
pub mod World
pub mod private
