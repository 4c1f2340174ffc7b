-- Definitions that private clauses alone cite.
pub mod Faults
pub mod JsonNodes
pub mod KeptRows
pub mod MemberWalk
pub mod PropertyCursor
pub mod Scalars
pub mod TapeNodes
pub mod TextValues
pub mod Walk
