pub mod Bytes
pub mod Stretch
