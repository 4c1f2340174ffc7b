pub mod FindLoops
pub mod Finds
pub mod Places
pub mod Queries
pub mod QueryLoops
pub mod WorkedQueries
