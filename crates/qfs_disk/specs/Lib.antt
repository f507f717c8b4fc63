pub mod Disk
pub mod Moments
pub mod Moves
pub mod Steps
