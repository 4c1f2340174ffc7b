pub mod Making
pub mod NormalDerived
pub mod NormalTrees
