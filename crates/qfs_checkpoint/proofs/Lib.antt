pub mod DiskLaws
pub mod LogLaws
