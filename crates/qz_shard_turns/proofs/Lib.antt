pub mod Tying
pub mod Posing
pub mod Jobs
