pub mod Copies
pub mod Carried
