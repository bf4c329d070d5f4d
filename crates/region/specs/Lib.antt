pub mod Boundaries
pub mod TwoSides
