pub use Rattle.edm_entities.specs.FitsPrimitive
pub mod FaultNumbers
