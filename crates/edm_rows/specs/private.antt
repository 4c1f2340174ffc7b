-- Definitions that private clauses alone cite.
pub mod Contexts
pub mod Filled
pub mod Held
pub mod HeldRows
pub mod KeptLeaves
pub mod KeptRows
pub mod KeptSoFar
pub mod LookedUp
pub mod LayoutRows
pub mod Members
pub mod Passed
pub mod RowSlots
pub mod RowTypes
pub mod SeenSlots
pub mod SlotsSoFar
