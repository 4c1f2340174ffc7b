pub use Rattle.edm_entities.specs.Row
pub use Rattle.edm_values.specs.MomentParts
pub use Rattle.odata_checked_filter.specs.Filter
pub use Rattle.odata_checked_filter.specs.FlatTree
pub use Rattle.odata_eval.specs.NodeOutcome
pub mod NodeReports
