mod GuidTexts
mod LanesWithin
pub mod LiteralTexts
mod LiteralsStand
mod MomentTexts
