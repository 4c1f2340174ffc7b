pub mod CanonicalRows
pub mod OneCollection
pub mod OneFault
pub mod TrueRows
