pub mod Cut
pub mod Prepared
pub mod FirstPass
pub mod SecondPass
