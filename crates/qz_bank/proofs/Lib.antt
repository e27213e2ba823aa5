mod BankLemmas
mod VersionLemmas
pub mod FollowingLemmas
