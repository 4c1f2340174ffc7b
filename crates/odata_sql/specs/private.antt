-- Definitions that private clauses alone cite.
pub mod Refused
pub mod ShapedTrees
pub mod StatementData
