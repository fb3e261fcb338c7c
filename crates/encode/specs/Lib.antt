pub mod Encoded
pub mod Answer
