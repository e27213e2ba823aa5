mod Sameness
mod Tested
mod Mapped
pub mod Verdicts
mod Walking
mod Sweeping
mod Final
