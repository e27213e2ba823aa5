pub mod Naming
pub mod Files
pub mod Opened
pub mod Founded
