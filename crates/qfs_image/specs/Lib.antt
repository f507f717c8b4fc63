pub mod Kept
pub mod Rules
pub mod Files
