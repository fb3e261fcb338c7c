pub mod Scaled
pub mod Only
pub mod Fractions
pub mod Fields
pub mod Words
pub mod Readings
pub mod Range
pub mod Theorems
