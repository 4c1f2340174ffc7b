-- Values of the code, as what they stand for.
pub mod Beside
pub mod CallValues
pub mod Holding
pub mod MemberCounts
pub mod Members
pub mod OneReading
