-- Range variables and the scope that they are.
pub mod Scopes
