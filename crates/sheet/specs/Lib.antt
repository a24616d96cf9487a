pub mod Masks
pub mod Sheets
pub mod Listing
pub mod Arrivals
