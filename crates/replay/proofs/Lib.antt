pub mod Cuts
pub mod Turns
pub mod Running
pub mod Printed
