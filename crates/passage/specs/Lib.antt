pub mod Passages
pub mod Corrections
pub mod Register
pub mod Night
