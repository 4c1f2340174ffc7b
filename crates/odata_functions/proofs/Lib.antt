mod Calendar
mod Decided
pub mod Divisions
mod Encodings
mod Numbers
mod SharedBits
mod TextOrder
mod Widening
mod texts
