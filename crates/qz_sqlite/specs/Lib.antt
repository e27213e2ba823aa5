pub mod Reading
pub mod Founding
pub mod Keepers
pub mod Telling
pub mod Loading
