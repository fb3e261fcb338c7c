pub mod Back
pub mod Candidate
