pub mod Chains
pub mod Loops
pub mod Places
pub mod Fills
pub mod Read
