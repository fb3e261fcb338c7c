pub mod Words
pub mod Each
pub mod Scenes
