pub mod ByteTables
pub mod IdentifierBytes
pub mod Identifiers
