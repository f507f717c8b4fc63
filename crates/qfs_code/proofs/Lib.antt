mod Dot
pub mod Columns
mod Parity
mod Spares
mod Counts
mod Horner
mod LeftOut
mod Words
mod WantedSlot
pub mod Restoring
pub mod Encoding
