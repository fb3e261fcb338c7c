pub mod Seeds
pub mod Table
