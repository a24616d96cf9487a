pub mod Laid
pub mod Lengths
pub mod Writes
pub mod Fields
pub mod Cut
pub mod OneForm
pub mod Accepted
