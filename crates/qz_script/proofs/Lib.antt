pub mod KeptLemmas
pub mod InputLemmas
pub mod RetryLemmas
pub mod ScriptLemmas
