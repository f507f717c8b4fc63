pub mod CodeWord
pub mod Restored
pub mod Slot
pub mod Examples
