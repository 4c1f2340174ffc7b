mod Common
mod canonical
pub mod characters
mod machine
mod readings
mod spellings
