-- Definitions that private clauses alone cite.
pub mod Answer
pub mod CheckContexts
pub mod Checker
pub mod FirstAmong
pub mod Forms
pub mod Items
pub mod Judging
pub mod LambdaNode
pub mod LawsBelow
pub mod OperandTexts
pub mod ResolvedText
pub mod Rows
pub mod SpanLaws
pub mod Variables
pub mod Walks
