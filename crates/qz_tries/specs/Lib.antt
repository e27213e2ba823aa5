pub mod Progress
pub mod After
pub mod Parts
