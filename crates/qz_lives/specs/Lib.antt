pub mod Runs
pub mod Ones
pub mod Attempts
pub mod Changes
