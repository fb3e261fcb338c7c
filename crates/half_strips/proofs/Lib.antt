pub mod Theorems
pub mod Pair
