pub mod AuditOfImage
pub mod AuditTables
pub mod Pending
