-- What the contracts of the plans cite.
pub mod MoveSteps
pub mod Steps
