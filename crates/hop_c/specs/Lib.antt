pub mod Edge
pub mod Determined
