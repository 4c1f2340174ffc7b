-- Definitions that proofs alone cite here, and the private clauses of the crate above.
pub mod Alike
pub mod BoundOperands
pub mod ChainTerms
pub mod FaultySides
pub mod Functions
pub mod Growth
pub mod ItemValues
pub mod NodesThere
pub mod OperandValues
pub mod ValueForms
pub mod Worlds
