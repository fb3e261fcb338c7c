pub mod Reach
pub mod Inverse
pub mod Farthest
