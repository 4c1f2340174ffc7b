-- Definitions that private clauses alone cite.
pub mod BadTexts
pub mod BoundedLines
pub mod RowsInPlace
pub mod ValueAnswer
