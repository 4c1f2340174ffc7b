-- What a filter and that of its canonical text have alike.
pub mod Filters
pub mod NodeTypes
