pub mod Asked
pub mod Home
pub mod Starts
pub mod Stores
pub mod Tries
