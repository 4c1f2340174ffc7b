mod EscapeLemmas
mod EscapesPassed
mod KeyLemmas
mod KeysStand
mod Lanes
pub mod Leads
pub mod LexemeLemmas
mod NumberLemmas
pub mod Places
mod ReportedLemmas
pub mod RoomLemmas
pub mod ShortNumberLemmas
pub mod Standing
mod StopLemmas
pub mod Tokens
mod Utf8Pieces
mod WholeLemmas
mod Whole
