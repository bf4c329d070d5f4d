pub mod Areas
pub mod Sums
