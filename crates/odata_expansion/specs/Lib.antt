pub mod PathSet
pub mod ExpansionView
pub mod private
