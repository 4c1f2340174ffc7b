pub mod Blanks
pub mod Cuts
