-- What stands in the list for a tree.
pub mod Closing
pub mod Idle
pub mod Kept
