pub mod Lenient
pub mod Examples
