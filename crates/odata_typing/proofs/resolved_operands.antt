-- Operands and items that are enumeration literals without their type.
pub mod Given
pub mod Infixes
pub mod Items
pub mod Numbers
