pub mod Found
pub mod InMemory
pub mod Passed
pub mod Split
pub mod Walked
