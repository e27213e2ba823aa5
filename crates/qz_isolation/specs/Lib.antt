pub mod Isolation
pub mod Asked
