mod Examples
pub mod LabelList
pub mod Bounds
pub mod NumberList
pub mod NamedRows
pub mod InstRows
pub mod Reaches
pub mod OperandFields
pub mod LineList
pub mod Bases
pub mod Sizes
pub mod Faults
pub mod Laid
pub mod Filled
pub mod Outcomes
pub mod OneLine
pub mod OrgLine
pub mod PrintedSource
