pub mod Found
pub mod There
pub mod Stored
pub mod Shown
pub mod Each
