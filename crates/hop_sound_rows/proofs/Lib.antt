pub mod FullRows
pub mod RisingRows
pub mod SoundTests
pub mod ToldRows
pub mod Windows
