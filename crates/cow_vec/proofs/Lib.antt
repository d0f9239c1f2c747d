pub mod Pieces
pub mod Chunked
pub mod Writes
pub mod ChunkItems
pub mod ChunkWrites
