pub mod Askable
pub mod Asking
pub mod Endings
pub mod Kept
pub mod Session
