pub mod ReportLines
pub mod EventLines
