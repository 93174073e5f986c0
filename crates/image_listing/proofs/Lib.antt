pub mod TextLength
pub mod ListingLines
