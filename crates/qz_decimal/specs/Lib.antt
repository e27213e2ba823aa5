pub mod Numbers
pub mod Reading
pub mod Percent
pub mod Decimals
pub mod Examples
