pub mod Numbers
pub mod Powers
pub mod Names
pub mod Address
pub mod Config
