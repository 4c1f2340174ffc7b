pub mod Longest
pub mod Runs
pub mod States
pub mod Steps
