pub mod EntityTypes
pub mod RunEndings
pub mod RowEndings
pub mod PastFaultsEndings
