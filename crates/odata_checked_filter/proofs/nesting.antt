-- How deep lambda operators stand in one another.
pub mod Lines
