pub mod Rest
pub mod Turns
