pub mod Asked
pub mod Answers
