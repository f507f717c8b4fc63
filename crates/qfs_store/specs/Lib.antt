pub mod Known
pub mod Serves
pub mod Start
pub mod Stored
