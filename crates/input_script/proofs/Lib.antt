mod Examples
pub mod PartList
pub mod RowList
pub mod InputList
pub mod PairList
pub mod Passed
pub mod Outcomes
