pub mod Kept
pub mod Results
pub mod Together
