pub mod Sizes
pub mod Nearest
pub mod Digits
pub mod Signs
pub mod Only
pub mod Words
pub mod Theorems
