pub mod PromWords
pub mod HandlerOf
