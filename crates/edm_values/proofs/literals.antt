pub mod Dates
pub mod Guids
pub mod HexDigits
pub mod Ints
pub mod OneValue
pub mod Quotes
