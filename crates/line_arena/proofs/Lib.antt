pub mod Lists
pub mod Owners
pub mod Kept
pub mod Views
pub mod Made
pub mod Written
