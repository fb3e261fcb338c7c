pub mod Single
pub mod Theorems
