pub mod Clear
pub mod Nothing
pub mod Leaving
