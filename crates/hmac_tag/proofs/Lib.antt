pub mod KeyBlocks
pub mod Tagging
pub mod XorPieces
