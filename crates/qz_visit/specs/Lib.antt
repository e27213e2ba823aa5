pub mod Visits
pub mod Ways
pub mod Tokens
pub mod Reports
pub mod Closing
pub mod Opening
pub mod Seeing
pub mod Holding
