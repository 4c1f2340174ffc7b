mod Chains
mod ComparisonTables
mod OneFunction
mod OneMeaning
mod OneParameter
mod OnePlace
pub mod OneStep
mod Tables
