pub mod Shown
pub mod Report
pub mod Verdict
