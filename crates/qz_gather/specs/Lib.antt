pub mod Notes
pub mod Clerks
