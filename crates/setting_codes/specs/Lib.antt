pub mod LogC4
