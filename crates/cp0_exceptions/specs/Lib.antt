pub mod Codes
pub mod Causes
pub mod Raising
pub mod Leaving
