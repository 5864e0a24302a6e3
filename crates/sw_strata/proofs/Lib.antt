mod EdgeSteps
mod Examples
mod Reached
mod WithinSorts
mod Level
