pub mod Replay
pub mod Readings
pub mod Plays
pub mod Played
pub mod Replayed
pub mod ReplayEndings
