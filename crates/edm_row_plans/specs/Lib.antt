pub use Rattle.csdl_schema.specs.ExpansionView
pub use Rattle.csdl_schema.specs.PathSet
pub use Rattle.csdl_schema.specs.PropertyView
pub use Rattle.csdl_schema.specs.SchemaModel
pub mod Expanded
pub mod ExpandedNodes
pub mod Plans
