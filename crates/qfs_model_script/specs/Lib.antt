pub mod Limits
pub mod InScript
pub mod ScriptText
pub mod MadeScript
pub mod Examples
