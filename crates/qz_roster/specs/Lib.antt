pub mod Told
pub mod Texts
pub mod People
pub mod Quizzes
pub mod Counts
pub mod Members
pub mod Overrides
pub mod Roster
