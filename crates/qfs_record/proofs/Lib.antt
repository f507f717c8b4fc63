pub mod ChunkLaws
pub mod PartLaws
