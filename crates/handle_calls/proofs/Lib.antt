mod FilterSteps
mod RowSteps
