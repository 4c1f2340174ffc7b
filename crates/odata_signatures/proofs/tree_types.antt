-- Which type a node has, and that it is one.
pub mod Carried
pub mod Sides
pub mod Examples
pub mod OneType
pub mod OneValue
pub mod Quoting
