pub mod Sources
pub mod Rest
pub mod Turns
