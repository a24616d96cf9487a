pub mod Checks
pub mod Scans
pub mod Groups
pub mod Refusals
