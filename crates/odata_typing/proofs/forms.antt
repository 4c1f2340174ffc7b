-- The forms over one operand and between two, by cases.
pub mod Infix
pub mod Unary
