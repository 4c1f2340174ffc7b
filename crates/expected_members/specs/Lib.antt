pub mod Undeclared
pub mod private
