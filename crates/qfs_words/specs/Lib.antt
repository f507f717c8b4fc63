pub mod Meant
pub mod Spelled
