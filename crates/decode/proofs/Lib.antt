pub mod Cleared
pub mod Tests
pub mod Law
pub mod Compare
pub mod Near
pub mod Toe
pub mod Right
pub mod Settings
pub mod Theorems
mod Quotient
pub mod Program
pub mod Fit
pub mod Limit
pub mod Close
pub mod Answers
pub mod Distance
pub mod Recorder
