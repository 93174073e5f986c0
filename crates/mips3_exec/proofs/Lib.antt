pub mod Pieces
pub mod Positions
pub mod TableFacts
pub mod EffectFacts
pub mod Talks
pub mod System
pub mod Runs
pub mod Fixed
