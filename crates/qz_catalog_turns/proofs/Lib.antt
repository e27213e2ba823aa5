pub mod Turning
pub mod Again
pub mod Owning
