pub mod Runs
pub mod Words
pub mod PausedRuns
pub mod Handled
