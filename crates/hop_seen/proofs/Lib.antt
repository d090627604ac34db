pub mod Bits
pub mod Faults
pub mod Places
pub mod Seen
