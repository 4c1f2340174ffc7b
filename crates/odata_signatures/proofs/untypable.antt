-- Which node is the first without a type.
pub mod OneRefusal
pub mod OneStart
pub mod Untypable
pub mod Unread
