pub mod Lengths
pub mod Lines
mod Standing
mod Answers
pub mod Theorems
