-- Nodes of each form, put over their children or refused.
pub mod Between
pub mod Called
pub mod LastTrees
pub mod Leaves
pub mod ItemLoops
pub mod ItemsGiven
pub mod Listed
pub mod Loops
pub mod Over
pub mod Quoted
pub mod Rows
pub mod TypeLoops
