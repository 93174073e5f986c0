pub mod Pieces
pub mod Grammar
pub mod Texts
pub mod Fields
pub mod Traces
pub mod Faults
