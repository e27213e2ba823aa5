pub mod Pushing
pub mod Entering
pub mod Calls
pub mod Keeping
pub mod Filling
