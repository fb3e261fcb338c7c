pub mod Gap
pub mod LogC
pub mod LogC4
