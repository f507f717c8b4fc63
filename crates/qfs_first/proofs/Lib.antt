pub mod CommandLines
pub mod CommandTexts
pub mod NumberTexts
pub mod OnLiterals
pub mod Splits
pub mod HexBytes
pub mod ScriptSaid
