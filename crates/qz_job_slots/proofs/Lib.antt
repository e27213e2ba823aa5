pub mod Plans
pub mod Bounds
pub mod Steps
