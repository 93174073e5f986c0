pub mod Powers
pub mod Cut
pub mod Lookup
