pub mod Sounds
pub mod Moments
pub mod Pieces
pub mod Logged
pub mod SlotLemmas
