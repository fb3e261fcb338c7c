pub mod Constants
pub mod Decoded
pub mod Answer
pub mod Ready
pub mod Gap
