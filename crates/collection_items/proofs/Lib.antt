mod ItemLineSteps
mod WalkSteps
