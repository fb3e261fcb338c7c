pub mod Sizes
pub mod Carries
pub mod Split
pub mod Nearest
