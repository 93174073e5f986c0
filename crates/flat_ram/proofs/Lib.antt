pub mod Replaced
pub mod Numbers
