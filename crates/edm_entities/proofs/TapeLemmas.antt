-- JSON values on a tape are what `serde_json` reads.
pub mod Items
pub mod MemberTokens
pub mod Members
pub mod Nodes
pub mod Reads
pub mod Shallow
pub mod Texts
pub mod Values
