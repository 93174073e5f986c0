pub mod Writing
mod Files
mod Appending
