pub mod costs
pub mod meaning
