pub mod Saying
pub mod Folders
