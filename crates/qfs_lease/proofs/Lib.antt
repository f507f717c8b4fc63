pub mod RowLaws
pub mod LeaseLaws
pub mod PassLaws
pub mod IndexLaws
pub mod LookLaws
pub mod TableLaws
