pub mod Join
pub mod Lent
