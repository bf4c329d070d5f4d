pub mod Values
pub mod Cards
pub mod Readings
pub mod Steps
