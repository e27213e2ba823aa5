mod Sets
mod Seating
pub mod Closing
mod Folders
