pub mod Tallying
pub mod Ballots
pub mod Stored
pub mod Looking
pub mod Entries
pub mod Fallback
pub mod Rules
pub mod Reading
