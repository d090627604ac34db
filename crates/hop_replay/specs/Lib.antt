pub mod Replay
pub mod Worked
