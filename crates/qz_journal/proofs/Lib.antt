pub mod Fronts
pub mod Images
pub mod Crashes
pub mod Steps
pub mod Calls
pub mod Results
pub mod Keeping
