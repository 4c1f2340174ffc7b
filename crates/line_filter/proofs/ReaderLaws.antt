pub mod FirstLine
pub mod Giving
