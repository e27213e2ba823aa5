pub mod Held
pub mod Nexts
pub mod Listings
pub mod Plays
pub mod Targets
pub mod Cursors
