pub mod State
pub mod ActorModel
pub mod Standing
