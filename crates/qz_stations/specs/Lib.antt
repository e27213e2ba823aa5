pub mod Stations
pub mod Noting
pub mod Posts
pub mod Seats
pub mod Sides
pub mod Passing
