pub mod BinaryNodes
pub mod Composing
pub mod Leaves
pub mod PathKinds
pub mod PathLeads
mod PathNodes
mod PathsPut
pub mod Places
pub mod RowPaths
