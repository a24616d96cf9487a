pub mod Choice
pub mod Refusals
pub mod Checks
pub mod Group
pub mod Codes
