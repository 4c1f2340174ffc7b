pub mod Faults
pub mod FirstRuns
pub mod Spans
pub mod Nesting
pub mod Deep
