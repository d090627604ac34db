pub mod Events
pub mod Answers
