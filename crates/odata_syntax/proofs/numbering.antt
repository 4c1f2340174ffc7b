pub mod Writes
pub mod Tiles
pub mod Growth
pub mod Growing
pub mod Numbers
pub mod Placed
pub mod Nodes
pub mod Next
