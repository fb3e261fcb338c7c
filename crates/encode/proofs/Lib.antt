mod Midpoints
mod Codes
mod Shifted
mod Sums
mod ThirdTests
mod Settings
mod Thirds
pub mod Theorems
pub mod Recorder
pub mod Answers
