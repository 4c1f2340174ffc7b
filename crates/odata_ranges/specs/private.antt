-- Definitions that private clauses alone cite.
pub mod ArithmeticRanges
pub mod Called
pub mod FunctionRanges
pub mod NodeForm
pub mod OperatorRanges
pub mod Reach
pub mod Values
