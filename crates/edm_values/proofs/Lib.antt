mod FewValues
pub mod SameTexts
pub mod literals
pub mod moments
