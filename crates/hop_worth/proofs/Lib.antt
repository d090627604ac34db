pub mod Filling
pub mod Called
pub mod Answers
