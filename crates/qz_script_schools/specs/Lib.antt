pub mod Memory
pub mod Folders
pub mod Again
