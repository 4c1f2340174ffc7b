mod Common
pub mod nodes
pub mod outcomes
