pub mod Answers
pub mod Links
pub mod Steps
pub mod Doors
pub mod Replying
