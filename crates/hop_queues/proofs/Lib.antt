pub mod Moved
pub mod Waiting
