pub mod VersionLemmas
pub mod ReplayLemmas
pub mod PlayLemmas
