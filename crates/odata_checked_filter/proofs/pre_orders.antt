-- Which nodes a tree has.
pub mod Calls
