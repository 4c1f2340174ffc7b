mod SqlSteps
mod TypeSteps
