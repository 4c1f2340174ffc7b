pub use Rattle.serde_json.specs.Data as JsonData
pub use Rattle.serde_json.specs.Find as JsonFind
pub use Rattle.serde_json.specs.Read as JsonRead
pub use Rattle.serde_json.specs.View as JsonView
pub use Rattle.edm_enumerations.specs.EnumerationModel
pub use Rattle.edm_enumerations.specs.EnumerationValue
pub use Rattle.odata_expansion.specs.PathSet
pub use Rattle.odata_expansion.specs.ExpansionView
pub use Rattle.csdl_declarations.specs.Fault
pub use Rattle.csdl_declarations.specs.DeclaredType
pub mod ExprType
pub mod SchemaModel
pub mod Resolution
pub mod BaseFaults
pub mod TypeMembers
pub mod PropertyView
pub mod EnumerationText
pub mod JsonText
pub mod Document
pub mod Worked
pub mod private
