pub mod Paths
pub mod Sets
pub mod Called
pub mod Answers
