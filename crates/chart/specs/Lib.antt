pub mod Rows
pub mod Verdicts
pub mod Regions
