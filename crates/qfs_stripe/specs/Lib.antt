pub mod BlockWindows
pub mod Touched
pub mod Windows
