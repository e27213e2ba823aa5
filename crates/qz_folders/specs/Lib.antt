pub mod Names
pub mod Faults
pub mod Opening
pub mod Founding
