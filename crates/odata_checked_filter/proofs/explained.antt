-- The text that explains a filter.
pub mod Depths
pub mod Labels
pub mod Lines
