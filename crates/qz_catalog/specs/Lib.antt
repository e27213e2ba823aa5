pub mod Shown
pub mod Holdings
pub mod Readings
pub mod Applying
pub mod Allowed
pub mod Loads
pub mod Keeping
