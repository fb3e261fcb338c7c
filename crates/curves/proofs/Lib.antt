mod Member
pub mod Rows
