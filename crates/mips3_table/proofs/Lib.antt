pub mod Apart
pub mod ByClass
pub mod InRange
pub mod Names
