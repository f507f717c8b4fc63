pub mod HexWords
pub mod NumberTexts
pub mod PathWords
pub mod RunWords
pub mod Splits
pub mod TextLines
