-- What a filter needs of navigation.
pub mod Sets
pub mod Steps
pub mod Levels
pub mod Ways
pub mod Lines
pub mod Heads
pub mod Onward
pub mod Kinds
pub mod StepRows
pub mod Paths
pub mod Operators
pub mod Bodies
