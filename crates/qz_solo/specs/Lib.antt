pub mod Standing
pub mod Restarting
pub mod Memory
pub mod Marks
