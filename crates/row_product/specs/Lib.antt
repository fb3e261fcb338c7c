pub mod Row
pub mod Digits
