pub mod Databases
pub mod Slots
