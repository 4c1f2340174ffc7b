-- Definitions that private clauses alone cite.
pub mod KeptOperands
pub mod Lambda
pub mod NodeWays
pub mod PassedTests
pub mod RemainingTerms
pub mod Spending
pub mod ValueTests
pub mod WalkAnswer
