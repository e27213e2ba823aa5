pub mod Asking
pub mod Lost
pub mod Putting
