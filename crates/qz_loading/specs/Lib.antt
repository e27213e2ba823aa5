pub mod Places
pub mod Reading
pub mod Telling
pub mod Opening
pub mod Closing
pub mod Once
