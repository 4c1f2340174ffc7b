pub use Rattle.collection_items.specs.JudgedItems
pub use Rattle.csdl_schema.specs.JsonText
pub use Rattle.csdl_schema.specs.SchemaModel
pub use Rattle.edm_entities.specs.Fits
pub use Rattle.edm_entities.specs.FitsPrimitive
pub use Rattle.edm_entities.specs.Row
pub use Rattle.edm_entities.specs.RowFaults
pub use Rattle.edm_values.specs.MomentParts
pub use Rattle.edm_values.specs.Val
pub use Rattle.fault_numbers.specs.FaultNumbers
pub use Rattle.line_filter.specs.Growth
pub use Rattle.line_filter.specs.Kept
pub use Rattle.line_filter.specs.LineItems
pub use Rattle.odata_checked_filter.specs.Filter
pub use Rattle.odata_eval.specs.VerdictView
pub use Rattle.odata_filter_operations.specs.Outcome
pub use Rattle.odata_meaning.specs.Costs
pub use Rattle.odata_meaning.specs.Means
pub use Rattle.odata_meaning.specs.MeansOn
pub use Rattle.serde_json.specs.Data as JsonData
pub use Rattle.serde_json.specs.View as JsonView
pub mod RowJudgment
pub mod RowsOnce
pub mod RowAnswer
pub mod RowLineJudge
pub mod FilterRows
pub mod RowCosts
pub mod private
