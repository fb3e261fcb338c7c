pub mod Power
pub mod Progression
