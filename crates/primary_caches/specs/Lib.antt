pub mod Tag
pub mod TagLists
pub mod Geometry
