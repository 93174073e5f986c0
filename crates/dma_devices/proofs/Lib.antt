pub mod CommandBeats
pub mod InputsByTick
