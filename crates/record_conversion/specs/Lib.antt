pub mod Conversions
pub mod Lawful
pub mod Laws
