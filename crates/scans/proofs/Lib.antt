pub mod Outcomes
pub mod Waiting
pub mod Written
pub mod Naming
pub mod Skipping
pub mod Keys
pub mod Visits
pub mod Counting
