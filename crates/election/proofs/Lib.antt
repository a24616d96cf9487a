pub mod Hearing
pub mod Gathering
pub mod Given
pub mod Heights
