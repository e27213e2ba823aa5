pub mod Disks
pub mod Sound
pub mod Keepers
pub mod Changes
pub mod Log
pub mod Stops
pub mod Shelves
pub mod Slots
