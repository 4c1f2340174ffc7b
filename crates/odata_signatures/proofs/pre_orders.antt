-- How many nodes a tree has.
pub mod Sizes
