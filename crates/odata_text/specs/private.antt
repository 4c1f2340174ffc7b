pub mod Lengths
pub mod Patterns
pub mod PlainTokens
