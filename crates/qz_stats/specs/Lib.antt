pub mod Samples
pub mod Picks
pub mod Rows
pub mod Shards
pub mod Sums
pub mod Counts
