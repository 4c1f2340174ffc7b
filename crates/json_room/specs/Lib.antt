pub use Rattle.json.specs.Json
pub use Rattle.json.specs.Lex
pub use Rattle.json.specs.Token
pub use Rattle.serde_json.specs.Data as JsonData
pub use Rattle.serde_json.specs.Read as JsonRead
pub use Rattle.serde_json.specs.View as JsonView
pub mod Keys
pub mod Lexemes
pub mod LexemesAt
pub mod RoomyLine
pub mod SpelledKey
pub mod TokenReading
pub mod ValueStands
pub mod ValueTokens
pub mod WholeNumbers
pub mod private
