pub mod Scans
pub mod Keys
pub mod Visits
