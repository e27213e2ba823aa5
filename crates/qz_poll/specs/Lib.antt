pub mod Outsides
pub mod Stages
pub mod Owed
pub mod Steps
pub mod Tasks
