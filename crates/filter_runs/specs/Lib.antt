pub use Rattle.csdl_schema.specs.JsonText
pub use Rattle.csdl_schema.specs.SchemaModel
pub use Rattle.edm_entities.specs.Fits
pub use Rattle.edm_entities.specs.FitsPrimitive
pub use Rattle.edm_entities.specs.RowFaults
pub use Rattle.edm_values.specs.MomentParts
pub use Rattle.edm_values.specs.Val
pub use Rattle.line_filter.specs.CallLogs
pub use Rattle.line_filter.specs.Growth
pub use Rattle.line_filter.specs.ItemIndexes
pub use Rattle.line_filter.specs.Kept
pub use Rattle.line_filter.specs.LineItems
pub use Rattle.line_filter.specs.LineSource
pub use Rattle.line_filter.specs.LineStreams
pub use Rattle.line_filter.specs.Lines
pub use Rattle.line_filter.specs.PastFaults
pub use Rattle.odata_checked_filter.specs.Filter
pub use Rattle.odata_filter_operations.specs.Outcome
pub use Rattle.odata_meaning.specs.Means
pub use Rattle.odata_meaning.specs.MeansOn
pub use Rattle.row_judges.specs.RowJudgment
pub use Rattle.serde_json.specs.Data as JsonData
pub use Rattle.serde_json.specs.Find as JsonFind
pub use Rattle.serde_json.specs.View as JsonView
pub mod RunStops
pub mod DeviceFaults
pub mod Collection
pub mod private
