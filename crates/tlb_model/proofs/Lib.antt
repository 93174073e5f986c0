pub mod Storable
pub mod PageSizes
