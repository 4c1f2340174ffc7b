-- Definitions that private clauses alone cite.
pub mod JudgeCalls
