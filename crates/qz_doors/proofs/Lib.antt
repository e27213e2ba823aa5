pub mod ServeLemmas
pub mod DoorLemmas
pub mod Following
pub mod Carrying
pub mod Replying
