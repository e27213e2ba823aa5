pub mod Words
pub mod Replying
