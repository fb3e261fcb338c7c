pub mod Channels
pub mod Theorems
