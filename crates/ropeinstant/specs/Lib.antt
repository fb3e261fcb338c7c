pub mod Floats
pub mod Call
