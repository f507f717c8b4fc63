pub mod OnLiterals
pub mod WordsApart
pub mod OrderText
