pub mod Cuts
pub mod Answers
pub mod Due
