pub mod Rest
pub mod Moves
pub mod WriterState
