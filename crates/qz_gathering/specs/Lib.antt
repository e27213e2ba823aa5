pub mod Owners
pub mod Gathering
pub mod Marking
