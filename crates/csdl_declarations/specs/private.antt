-- Definitions that private clauses alone cite.
pub mod DocumentView
pub mod FaultView
