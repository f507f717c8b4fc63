pub mod Chunk
pub mod Server
