pub mod EnumerationTexts
pub mod private
