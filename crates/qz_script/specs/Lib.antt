pub mod ScriptLines
pub mod Inputs
pub mod Retries
pub mod Scripts
