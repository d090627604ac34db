pub mod Carries
pub mod Parts
