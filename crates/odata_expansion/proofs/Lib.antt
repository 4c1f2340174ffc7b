mod Nodes
mod Marks
