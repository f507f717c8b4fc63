pub mod Actors
pub mod Nodes
pub mod Scripts
pub mod Turns
