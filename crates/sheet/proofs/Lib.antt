pub mod Masks
pub mod Sheets
pub mod Below
pub mod Listed
pub mod Sound
pub mod Reaching
pub mod Telling
pub mod Arrivals
