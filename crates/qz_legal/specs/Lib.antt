pub mod Readings
pub mod Allowed
pub mod Beside
