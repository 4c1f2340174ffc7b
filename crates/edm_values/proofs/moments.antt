pub mod FractionDigits
pub mod Instants
pub mod MomentSpellings
pub mod Moments
pub mod Offsets
