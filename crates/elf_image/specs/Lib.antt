pub mod Header
pub mod Rules
pub mod Loading
pub mod Written
