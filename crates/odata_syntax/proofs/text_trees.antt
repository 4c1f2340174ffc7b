pub mod Runs
pub mod Ranges
pub mod Parsed
