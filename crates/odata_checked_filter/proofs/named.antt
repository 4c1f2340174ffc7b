-- The paths of the properties that nodes name, by a walk over the list.
pub mod Once
pub mod Texts
pub mod Trees
