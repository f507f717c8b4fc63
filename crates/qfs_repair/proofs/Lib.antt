mod Answered
pub mod RowGroups
