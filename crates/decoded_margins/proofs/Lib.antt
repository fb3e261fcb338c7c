pub mod Margins
pub mod Settings
