pub mod Bytes
pub mod Places
pub mod Held
