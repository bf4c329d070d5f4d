pub mod Fields
pub mod Files
pub mod Answers
pub mod Steps
