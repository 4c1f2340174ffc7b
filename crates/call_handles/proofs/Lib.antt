mod Steps
mod Types
mod OwnedSteps
