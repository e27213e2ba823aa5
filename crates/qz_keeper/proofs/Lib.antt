pub mod Mending
pub mod Keeping
pub mod Calls
pub mod Settling
