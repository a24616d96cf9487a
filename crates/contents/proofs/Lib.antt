pub mod Neither
pub mod Ballots
