pub mod Writing
pub mod Answers
