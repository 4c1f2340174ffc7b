pub mod Once
pub mod Passing
pub mod Stopping
pub mod Walked
