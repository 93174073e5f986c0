pub mod Instructions
pub mod Program
pub mod Summary
