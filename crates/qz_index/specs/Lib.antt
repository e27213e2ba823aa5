pub mod Owners
pub mod Versions
pub mod Attempts
pub mod Orders
pub mod Jobs
pub mod Keys
pub mod Indexed
