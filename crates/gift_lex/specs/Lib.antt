pub mod Blocks
pub mod Gathering
pub mod Examples
