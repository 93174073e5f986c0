pub mod Pairs
pub mod Translation
pub mod Segments
