pub use Rattle.clap.specs.Words as ClapWords
pub mod CommandLine
pub mod PartTexts
pub mod Requests
pub mod WorkedLines
pub mod private
