-- Definitions that private clauses alone cite.
pub mod Paths
pub mod Spelled
