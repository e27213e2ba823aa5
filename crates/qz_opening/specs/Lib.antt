pub mod Unloaded
pub mod Restarting
