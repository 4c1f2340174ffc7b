mod Common
mod Measures
mod MeasuresLess
mod MeasuresSteps
mod answers
mod lets
pub mod puts
