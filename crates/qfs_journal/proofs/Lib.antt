pub mod LogLaws
pub mod RequestLaws
