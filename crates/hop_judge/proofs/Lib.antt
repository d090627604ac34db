pub mod Known
pub mod Judging
pub mod Read
