pub use Rattle.csdl_schema.specs.EnumerationText
pub use Rattle.csdl_schema.specs.ExpansionView
pub use Rattle.csdl_schema.specs.ExprType
pub use Rattle.csdl_schema.specs.JsonText
pub use Rattle.csdl_schema.specs.PathSet
pub use Rattle.csdl_schema.specs.PropertyView
pub use Rattle.csdl_schema.specs.SchemaModel
pub use Rattle.edm_enumerations.specs.EnumerationModel
pub use Rattle.edm_enumerations.specs.EnumerationValue
pub use Rattle.edm_values.specs.Civil
pub use Rattle.edm_values.specs.DateLiteral
pub use Rattle.edm_values.specs.GuidLiteral
pub use Rattle.edm_values.specs.MomentLiteral
pub use Rattle.edm_values.specs.MomentParts
pub use Rattle.edm_values.specs.NumberTypes
pub use Rattle.edm_values.specs.Val
pub use Rattle.serde_json.specs.Data as JsonData
pub use Rattle.serde_json.specs.Find as JsonFind
pub use Rattle.serde_json.specs.View as JsonView
pub mod Example
pub mod Fits
pub mod FitsPrimitive
pub mod HasType
pub mod HoldsEachSlot
pub mod Row
pub mod RowFaults
pub mod SlotValue
pub mod TextFaults
pub mod ValuesRead
pub mod private
