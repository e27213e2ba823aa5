pub mod Staying
pub mod Repeating
pub mod Standing
pub mod Calls
pub mod Once
pub mod Paths
pub mod Workers
pub mod Reports
