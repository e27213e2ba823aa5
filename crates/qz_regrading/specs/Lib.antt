pub mod Workers
pub mod Working
pub mod Passes
pub mod Parts
pub mod Loops
