-- Definitions that private clauses alone cite.
pub mod Called
pub mod Explanation
pub mod KeptLists
pub mod KindTexts
pub mod LambdaLines
pub mod Layout
pub mod NeededPaths
pub mod NodeList
pub mod PathSteps
pub mod PrintedList
pub mod PropertyPaths
pub mod Stands
