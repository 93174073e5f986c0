pub mod Operands
pub mod Rows
pub mod Matching
pub mod Instructions
