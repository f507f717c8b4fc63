pub mod Ranges
pub mod Blocks
pub mod Files
pub mod Letters
pub mod Audits
