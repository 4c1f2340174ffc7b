-- Which node is the first without a type, from what its parts are.
pub mod Checks
pub mod Names
pub mod Operands
pub mod PropertySlots
pub mod Several
pub mod Untypable
pub mod Wholes
