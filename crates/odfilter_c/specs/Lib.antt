pub use Rattle.handle_calls.specs.Costs
pub use Rattle.handle_calls.specs.Reports
pub use Rattle.handle_calls.specs.RowReports
pub use Rattle.handle_calls.specs.UrlCalls
pub use Rattle.report_calls.specs.Reports as TextReports
pub use Rattle.report_calls.specs.Sentences
pub use Rattle.report_calls.specs.SqlHandles
pub mod Exports
pub mod FaultExports
pub mod FilterExports
pub mod JudgeExports
pub mod LineExports
pub mod Loans
pub mod Sizes
pub mod SqlExports
pub mod TypeExports
