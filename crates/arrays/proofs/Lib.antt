pub mod Made
pub mod Marks
pub mod Reading
