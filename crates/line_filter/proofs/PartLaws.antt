pub mod Begun
pub mod Ends
pub mod Readers
pub mod Runs
pub mod Text
