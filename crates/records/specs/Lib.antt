pub mod Numbers
pub mod Tx
pub mod Vl
pub mod Views
pub mod Contents
pub mod Cutting
pub mod Messages
pub mod Writing
