-- Definitions that proofs alone cite here, and the private clauses of the crates above.
pub mod AnswersAtPlace
pub mod ContextModel
pub mod EvalContext
pub mod Place
