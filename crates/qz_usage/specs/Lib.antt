pub mod Players
pub mod Runs
pub mod Tallies
pub mod Usages
