pub mod Applied
pub mod Checked
pub mod Input
pub mod Left
pub mod Routes
pub mod Short
pub mod Accepted
