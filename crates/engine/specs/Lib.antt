pub mod Outcome
pub mod Safety
pub mod Order
pub mod Busy
pub mod Lows
pub mod Crossed
pub mod SlipUnder
pub mod Panel
