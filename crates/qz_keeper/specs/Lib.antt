pub mod Custody
pub mod Recording
pub mod Lists
