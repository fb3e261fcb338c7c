pub mod First
pub mod Contract
pub mod Join
pub mod Back
pub mod ChannelsBack
pub mod Same
pub mod Exactly
pub mod Theorems
