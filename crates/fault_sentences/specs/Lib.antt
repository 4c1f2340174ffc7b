pub mod Hint
pub mod Numbers
