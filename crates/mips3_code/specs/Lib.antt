pub mod Coding
pub mod Targets
