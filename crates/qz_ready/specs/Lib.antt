pub mod Looks
pub mod Arrivals
pub mod Paces
pub mod Sockets
