pub mod Stripes
pub mod Puts
pub mod Turns
pub mod Nodes
