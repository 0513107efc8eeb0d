pub mod Pieces
pub mod Partitions
