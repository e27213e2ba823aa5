pub mod Founding
pub mod Lists
pub mod Given
