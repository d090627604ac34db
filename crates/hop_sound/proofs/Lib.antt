pub mod Listed
pub mod Routes
pub mod Judged
pub mod Sound
