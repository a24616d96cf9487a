pub mod Bytes
pub mod Newest
pub mod Parts
pub mod Moving
pub mod Open
pub mod Passes
pub mod Raised
