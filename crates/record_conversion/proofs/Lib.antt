pub mod Good
pub mod Channelwise
pub mod SceneBits
