pub mod Worlds
pub mod EverySchedule
