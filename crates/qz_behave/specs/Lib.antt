pub mod Machines
pub mod Following
