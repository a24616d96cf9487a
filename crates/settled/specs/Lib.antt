pub mod Settled
pub mod Open
