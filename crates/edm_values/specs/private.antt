pub mod Moment
pub mod MomentLiteral
pub mod StringLiteral
