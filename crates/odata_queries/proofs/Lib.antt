mod Common
pub mod queries
mod readers
