pub mod NumeratorSteps
pub mod FirstRule
