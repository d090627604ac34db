mod Known
mod Stores
pub mod Answers
