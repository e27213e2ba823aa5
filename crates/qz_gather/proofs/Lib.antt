pub mod Clearing
pub mod Turning
pub mod Growing
pub mod Noting
pub mod Keeping
