pub mod Computing
pub mod Examples
pub mod Gaps
pub mod Html
pub mod Patterns
