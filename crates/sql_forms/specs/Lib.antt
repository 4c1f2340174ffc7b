pub use Rattle.sql_draft.specs.Rows
pub use Rattle.odata_ranges.specs.Storable
pub use Rattle.odata_filter_operations.specs.Outcome
pub use Rattle.sql_meaning.specs.SqlMeans
pub use Rattle.sql_tree.specs.Term
pub mod Forms
pub mod private
