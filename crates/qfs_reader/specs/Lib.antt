pub mod ReadSoFar
pub mod Sources
pub mod Parts
pub mod Rest
pub mod ReaderState
