pub mod Raising
pub mod Passing
