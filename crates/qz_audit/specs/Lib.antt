pub mod Audits
pub mod Saying
pub mod Folders
