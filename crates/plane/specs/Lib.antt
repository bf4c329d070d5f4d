pub mod Points
pub mod Turns
pub mod Touching
pub mod Sides
pub mod Columns
