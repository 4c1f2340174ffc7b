pub use Rattle.edm_row_plans.specs.Plans
pub mod Alike
pub mod HeldSchema
pub mod RowItems
pub mod RowLayout
pub mod RowReading
pub mod RowsOfType
pub mod private
