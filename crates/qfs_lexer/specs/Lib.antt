pub mod Tells
pub mod Left
