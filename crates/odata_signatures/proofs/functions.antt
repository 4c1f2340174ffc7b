-- Functions by their names, and the types of calls.
pub mod Arguments
pub mod Calls
pub mod Names
