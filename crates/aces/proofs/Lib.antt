pub mod Rounding
pub mod Split
pub mod Greys
pub mod Within
pub mod Theorems
