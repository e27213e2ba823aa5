pub mod Turning
pub mod Answering
pub mod Headings
pub mod Owning
