pub mod Replies
pub mod Arguments
pub mod Bodies
pub mod Examples
