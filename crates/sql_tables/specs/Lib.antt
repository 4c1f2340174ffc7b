pub use Rattle.csdl_schema.specs.SchemaModel
pub mod Forms
pub mod Lines
pub mod Columns
