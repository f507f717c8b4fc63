pub mod Commands
pub mod Examples
pub mod Head
pub mod Lines
pub mod Numbers
pub mod Refusal
pub mod Script
