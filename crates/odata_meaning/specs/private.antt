-- Definitions that private clauses alone cite.
pub mod Decided
pub mod LawsBelow
