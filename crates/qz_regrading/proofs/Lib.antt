pub mod Keeping
pub mod Meeting
pub mod Searching
pub mod Telling
pub mod Working
