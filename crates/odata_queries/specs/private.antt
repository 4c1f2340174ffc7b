pub mod Find
pub mod QueryParts
