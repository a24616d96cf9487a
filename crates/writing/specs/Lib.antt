pub mod Parts
pub mod OneForm
