pub mod Bench
pub mod Endings
