pub mod State
pub mod CommandMachine
pub mod Forms
pub mod ActorModel
pub mod Standing
