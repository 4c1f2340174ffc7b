-- Definitions that private clauses alone cite.
pub mod Placed
pub mod PlacedView
pub mod SchemaView
pub mod Slots
