pub use Rattle.percent_encoding.specs.Percent
pub mod Disguise
pub mod Find
pub mod Query
pub mod QueryExamples
pub mod Readers
pub mod private
