pub mod Kept
pub mod Rows
