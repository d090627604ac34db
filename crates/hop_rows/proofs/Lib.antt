pub mod Every
pub mod Inside
pub mod Parts
pub mod RowTests
pub mod Slices
