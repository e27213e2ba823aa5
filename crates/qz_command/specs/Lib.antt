pub mod Commands
pub mod Flags
pub mod Leaves
pub mod Readings
