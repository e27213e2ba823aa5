pub mod Polling
pub mod Endings
