pub mod StageLemmas
pub mod TaskLemmas
mod Stops
