pub mod Fault
pub mod Held
pub mod HeldLaws
pub mod Stream
