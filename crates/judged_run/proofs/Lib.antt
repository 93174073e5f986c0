pub mod JudgedParts
pub mod Halting
pub mod JudgedRuns
pub mod Ended
pub mod Written
pub mod EventTexts
pub mod JudgedAgain
