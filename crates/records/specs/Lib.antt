-- what is read of a record's channels, and the record that is written for them
pub mod Channels
