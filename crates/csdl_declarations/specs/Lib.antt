pub use Rattle.serde_json.specs.Data as JsonData
pub use Rattle.serde_json.specs.Find as JsonFind
pub use Rattle.serde_json.specs.Read as JsonRead
pub use Rattle.serde_json.specs.View as JsonView
pub use Rattle.edm_enumerations.specs.EnumerationModel
pub mod Fault
pub mod FaultView
pub mod Members
pub mod TypeKind
pub mod Declarations
pub mod EnumerationDeclaration
pub mod DeclaredType
pub mod DeclaredTypeView
pub mod Faults
pub mod private
