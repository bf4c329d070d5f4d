pub mod Steps
pub mod Circles
