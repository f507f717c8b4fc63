mod Passing
mod Slots
pub mod Fetches
