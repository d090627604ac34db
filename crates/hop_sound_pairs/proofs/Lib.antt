pub mod Full
pub mod Ordered
