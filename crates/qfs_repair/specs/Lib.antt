pub mod Chunks
pub mod Deliveries
pub mod RowGroups
