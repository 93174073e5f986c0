pub mod FlatMemory
pub mod FlatMachine
pub mod Pause
pub mod Reads
pub mod FlatRun
pub mod Ranges
