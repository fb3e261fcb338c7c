pub mod Rounding
pub mod Digits
pub mod Dot
pub mod Inverse
