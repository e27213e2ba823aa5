pub mod Clocks
pub mod Doors
pub mod Gates
pub mod Links
