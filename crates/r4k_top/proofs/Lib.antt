pub mod Delivery
pub mod Headline
pub mod Reading
pub mod Benches
pub mod FlatEnds
pub mod SurePorts
pub mod Loads
