-- Definitions that private clauses alone cite.
pub mod Handle
pub mod HeldType
