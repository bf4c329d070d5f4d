pub mod Numbers
pub mod Groups
