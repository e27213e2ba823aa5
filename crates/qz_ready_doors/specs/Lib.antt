pub mod Halls
pub mod Runs
pub mod Slots
pub mod Kept
pub mod Waits
