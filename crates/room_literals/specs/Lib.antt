pub mod SureTexts
pub mod private
