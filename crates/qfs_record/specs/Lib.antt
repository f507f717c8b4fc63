pub mod Part
pub mod ChunkRecord
