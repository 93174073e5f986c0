pub mod Placing
pub mod Parts
pub mod Reach
pub mod RoundTrip
