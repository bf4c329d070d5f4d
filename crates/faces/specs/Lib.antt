pub mod Lists
pub mod Known
pub mod Steps
