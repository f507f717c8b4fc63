pub mod EntryLaws
pub mod IndexLaws
pub mod RecordLaws
pub mod RowLaws
pub mod TableLaws
