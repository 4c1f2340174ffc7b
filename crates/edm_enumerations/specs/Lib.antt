pub mod EnumerationModel
pub mod EnumerationValue
pub mod Spaces
pub mod WorkedEnumeration
pub mod private
