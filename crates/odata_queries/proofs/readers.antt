pub mod Cuts
pub mod Found
pub mod Hidden
pub mod Read
pub mod Shortens
pub mod Skips
pub mod Words
