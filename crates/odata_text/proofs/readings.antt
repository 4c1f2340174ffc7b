pub mod Examples
pub mod LongestPieces
pub mod OneReading
pub mod Places
pub mod PlainTokens
pub mod Prints
pub mod Scanners
pub mod Scans
