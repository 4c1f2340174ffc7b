-- Definitions that private clauses alone cite.
pub mod Escapes
pub mod ItemTokens
pub mod Keys
pub mod Lexemes
pub mod PassedTexts
pub mod ShortNumbers
pub mod SpelledKey
pub mod Utf8
pub mod ValuesStand
