-- What the contracts of blocks cite.
pub mod CopyIndex
pub mod Entries
pub mod ImageLaws
pub mod KeyLaws
pub mod Answers
pub mod BlockTables
pub mod LeaseLaws
pub mod Records
