pub mod FitLemmas
pub mod SlotLemmas
mod TapeLemmas
