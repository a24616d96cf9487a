pub mod Bench
pub mod Turn
