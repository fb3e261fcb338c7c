pub mod Reach
pub mod Only
pub mod Theorems
