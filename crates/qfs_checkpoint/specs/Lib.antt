pub mod Causes
pub mod Gate
pub mod Reading
