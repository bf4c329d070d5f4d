pub mod Nearests
pub mod Passes
