pub mod Elections
pub mod Telling
