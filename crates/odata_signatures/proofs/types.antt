-- Which types operators make.
pub mod OneEnumeration
pub mod Operators
pub mod Quoted
pub mod Unread
