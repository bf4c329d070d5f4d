pub mod Bits
pub mod Answers
pub mod Gauging
